pub mod CarriedIds
