pub mod Plain
pub mod Forms
