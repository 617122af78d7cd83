pub mod ReportText
pub mod PlainReport
