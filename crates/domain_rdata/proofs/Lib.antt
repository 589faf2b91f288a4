pub mod ScanLemmas
