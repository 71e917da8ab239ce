pub mod Forms
pub mod NodeRows
pub mod Views
pub mod LineRows
pub mod FirstNamed
pub mod Asking
pub mod Spelling
