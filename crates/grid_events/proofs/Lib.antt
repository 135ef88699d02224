pub mod ListenerEvents
