mod OpeningExits
mod Asked
mod Seven
