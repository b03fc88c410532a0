pub mod AcceptLaws
pub mod AcceptedIs
pub mod ChecksumLaws
pub mod HeaderLaws
pub mod PlaceLaws
pub mod ScanLaws
