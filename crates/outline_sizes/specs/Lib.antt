pub mod ClearanceLaws
