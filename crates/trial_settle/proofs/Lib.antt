mod AskedSettle
mod Before
mod Tallies
mod CopyLaws
mod PointTheorem
mod Unstruck
mod Sifting
mod Settles
