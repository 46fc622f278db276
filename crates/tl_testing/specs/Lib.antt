pub mod SumDigest
