pub mod NodeValues
