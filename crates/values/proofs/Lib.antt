pub mod SixSlots
