mod ValueEquality
mod RequestParts
