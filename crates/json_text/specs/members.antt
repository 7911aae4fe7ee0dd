-- Places in a JSON text: elements, members, and the one member with a name.
pub mod Places
