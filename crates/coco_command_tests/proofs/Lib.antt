mod LosingLemmas
