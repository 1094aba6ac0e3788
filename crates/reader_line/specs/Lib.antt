pub mod LineTaken
