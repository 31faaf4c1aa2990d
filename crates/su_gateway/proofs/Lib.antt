mod PairLemmas
mod Examples
