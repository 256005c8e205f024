pub mod StopPlans
