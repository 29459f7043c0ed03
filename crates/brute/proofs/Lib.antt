pub mod BruteLaws
