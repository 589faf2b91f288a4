mod LaneLemmas
mod RoundLemmas
mod MessageLemmas
mod IterateLemmas
mod HashesLemmas
