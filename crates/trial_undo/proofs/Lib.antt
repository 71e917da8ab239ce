mod TakenBack
mod Backs
mod Machine
mod Told
