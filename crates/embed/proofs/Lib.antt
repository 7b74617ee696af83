-- What a call does, by what its answer is.
mod ExportAnswers
