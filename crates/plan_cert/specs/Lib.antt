pub mod PlanSlots
pub mod Feasibility
pub mod Plan
pub mod CertFormat
pub mod CertGrammar
