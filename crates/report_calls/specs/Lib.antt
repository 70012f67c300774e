pub mod ReportCalls
