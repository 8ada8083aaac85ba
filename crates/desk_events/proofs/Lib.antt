pub mod MembersBack
pub mod WordsBack
pub mod RefusalsBack
pub mod EntriesBack
pub mod OneText
pub mod InRange
pub mod Sent
