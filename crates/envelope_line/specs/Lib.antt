pub mod EnvelopeLines
