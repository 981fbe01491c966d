pub use Rattle.itip_streams.specs.Visible
pub mod Tokens
pub mod Escaped
pub mod Value
pub mod Dates
pub mod RowMarkup
pub mod Page
pub mod PageTokens
