pub mod Filtering
pub mod Beginning
pub mod Unread
