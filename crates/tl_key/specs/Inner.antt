-- Private words: the steps of reading a key's text.
pub
    mod Parts
pub
    mod Law
