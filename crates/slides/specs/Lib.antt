pub mod Slides
pub mod Laws
pub mod CodeSlides
pub mod Examples
