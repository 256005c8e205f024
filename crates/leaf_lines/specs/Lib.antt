pub mod LeafList
