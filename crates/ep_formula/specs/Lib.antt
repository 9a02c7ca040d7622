pub mod EncodedViews
