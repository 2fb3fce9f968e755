-- The visible state of the stores, sources and sinks in memory.
use Rattle.std.specs.Prelude.{ℕ, ◌+◌, ◌-◌, Bool, ◌==◌, List, Vec, String, length, map as each}
use Rattle.std.specs.Prelude.{nat_eq, nat_le, string_bytes, if◌then◌else◌, refl}
use Rattle.std.specs.Coded.{Coded, code_by, coded×, coded_list, coded_ℕ}
use Rattle.std.specs.FinMap as map
use Rattle.std.specs.List.{list_any}
use Rattle.std.specs.Cmp.Lexicographic.{pointwise}
use Rattle.std.specs.declared.alloc.Global.{Global}
use Rattle.fk_ports.specs.Faults.{one_more}
use Rattle.fk_ports.specs.Files.{Files}

-- The number of calls made, and the numbers of those that fail, counted from 1. The first number
-- stays at 2^64 - 1: no later number can be listed.
pub record Calls : Type 0 where
  pub made : ℕ
  pub fails : List ℕ

-- The calls before the first one.
abbrev pub no_calls : List ℕ → Calls
no_calls fails = record { made = 0; fails = fails }

-- The next call fails.
abbrev pub is_to_fail : Calls → Bool
is_to_fail calls = list_any (λ number. number == calls.made + 1) calls.fails

-- The calls after one more.
abbrev pub counted : Calls → Calls
counted calls = record calls { made = one_more calls.made }

-- A count of faults after the next call.
abbrev pub faults_after : Calls → ℕ → ℕ
faults_after calls faults = if is_to_fail calls then one_more faults else faults

-- A sink in memory: the bytes that it took, the number of bytes for which it has room, its calls
-- and its faults.
pub record SinkState : Type 0 where
  pub taken : List ℕ
  pub capacity : ℕ
  pub calls : Calls
  pub faults : ℕ

abbrev pub is_full : SinkState → Bool
is_full sink = nat_le sink.capacity (length sink.taken)

-- The number of bytes for which there still is room.
abbrev pub room : SinkState → ℕ
room sink = sink.capacity - length sink.taken

-- A source in memory: the bytes that are left, its calls and its faults.
pub record SourceState : Type 0 where
  pub left : List ℕ
  pub calls : Calls
  pub faults : ℕ

-- A store in memory: its files, its calls of both kinds together, and its faults of each kind.
pub record StoreState : Type 0 where
  pub files : Files
  pub calls : Calls
  pub fetch_faults : ℕ
  pub put_faults : ℕ

-- A store is determined by the tuple of its fields.
abbrev pub store_code : Coded StoreState
store_code =
    code_by (Files × (ℕ × (List ℕ × (ℕ × ℕ))))
    (coded× (map.code (coded_list coded_ℕ) (coded_list coded_ℕ))
    (coded× coded_ℕ (coded× (coded_list coded_ℕ) (coded× coded_ℕ coded_ℕ))))
    (λ s. (s.files, (s.calls.made, (s.calls.fails, (s.fetch_faults, s.put_faults)))))
    (λ t. record {
      files = t.0;
      calls = record { made = t.1.0; fails = t.1.1.0 };
      fetch_faults = t.1.1.1.0;
      put_faults = t.1.1.1.1;
    })
    (λ _. refl)

-- A name and its bytes, as they are stored.
abbrev pub entry : String Global × Vec ℕ Global → List ℕ × List ℕ
entry stored = (string_bytes stored.0, stored.1.items)

-- The files of a list. Of two files with one name the first counts.
abbrev pub stored_files : List (String Global × Vec ℕ Global) → Files
stored_files list = map.from_entries (each entry list)

-- A stored file has this name.
abbrev pub is_named : List ℕ → String Global × Vec ℕ Global → Bool
is_named name stored = pointwise nat_eq name (string_bytes stored.0)

-- The store after the next fetch, and after the next put except for its files.
abbrev pub after_fetch : StoreState → StoreState
after_fetch store = record store
    { calls = counted store.calls; fetch_faults = faults_after store.calls store.fetch_faults }

abbrev pub after_put : StoreState → StoreState
after_put store = record store
    { calls = counted store.calls; put_faults = faults_after store.calls store.put_faults }
