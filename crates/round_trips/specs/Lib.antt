pub mod ComesBack
