mod SplitLaws
mod JsonSteps
mod DescribedStreamLaws
mod ReportLaws
mod SentInputLaws
mod ServingLaws
mod ValueSizes
