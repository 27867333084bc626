pub mod PlanLaws
pub mod CallLaws
pub mod AllLaws
