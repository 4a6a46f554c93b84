mod Tests
mod Shapes
mod Strips
mod Labels
mod Cuts
mod Texts
mod Passing
