-- Private words: what contracts of private functions and proofs need.
pub
    mod EdgeRoot
pub
    mod ReadPath
pub
    mod TileNumbers
pub
    mod Rest
pub
    mod Run
pub
    mod Steps
pub
    mod PartialHashes
pub
    mod TileTree
pub
    mod FoldsTo
pub
    mod TreeKeys
pub
    mod Adds
pub
    mod PlaceAfter
pub
    mod Law
pub
    mod TileLaws
