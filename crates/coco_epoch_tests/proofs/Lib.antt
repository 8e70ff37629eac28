mod StartedLemmas
