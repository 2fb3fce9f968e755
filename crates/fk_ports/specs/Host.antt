-- The visible state of the ports to the system.
use Rattle.std.specs.Prelude.{ℕ}
use Rattle.fk_ports.specs.declared.host.HostSink.{HostSink}
use Rattle.fk_ports.specs.declared.host.HostSource.{HostSource}
use Rattle.fk_ports.specs.declared.host.HostStore.{HostStore}

-- A store's counts of faults.
abbrev pub store_fetch_faults : {R : Type 0} → HostStore R → ℕ
store_fetch_faults store = store.fetch_faults

abbrev pub store_put_faults : {R : Type 0} → HostStore R → ℕ
store_put_faults store = store.put_faults

-- The reader of a source, and its count of faults.
abbrev pub reader_of : {R : Type 0} → HostSource R → R
reader_of source = source.reader

abbrev pub source_faults : {R : Type 0} → HostSource R → ℕ
source_faults source = source.faults

-- The writer of a sink, and its count of faults.
abbrev pub writer_of : {W : Type 0} → HostSink W → W
writer_of sink = sink.writer

abbrev pub sink_faults : {W : Type 0} → HostSink W → ℕ
sink_faults sink = sink.faults
