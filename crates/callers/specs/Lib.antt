pub mod AcceptedInC
pub mod Demand3InC
pub mod Made
pub mod RefusedInC
pub mod ReportInC
pub mod SaidInC
pub mod TakenInC
