pub mod ExplainedRows
