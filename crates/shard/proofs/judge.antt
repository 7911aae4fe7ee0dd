-- Laws of the judge.
mod Room
