-- One request over HTTP/1.1 and its answer (RFC 9110, RFC 9112; C2SP tlog-tiles, tlog-witness).
pub mod Answer
pub mod Head
pub mod Exchange
pub mod Log
pub mod Witness
pub mod Adding
pub mod Serve
pub mod ServeOpen
pub mod Inner
