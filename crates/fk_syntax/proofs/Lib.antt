pub mod Views
pub mod ProgramViews
