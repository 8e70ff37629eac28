use Rattle.std.proofs.Common.{◌≡◌, vec_len, vec_capacity}
use Rattle.coco_query.specs.Placing.{blanks, put_all, put_lists}
use Rattle.coco_query.proofs.answering.in_order.Given as goal

abbrev pub invariant-loop : goal.invariant-loop
invariant-loop l = record {
  blank : l.ordered.items ≡ blanks l.counter;
  count : vec_len l.ordered ≡ l.counter;
  room : vec_capacity l.ordered ≡ l.count;
}

-- what is left to be put makes all of it
abbrev pub invariant-loop-list : goal.invariant-loop-list
invariant-loop-list l = record { put : put_lists l.ordered.items l.list-iterator.rest.items ≡ put_lists (blanks l.count) l.fn.replies.items }

abbrev pub invariant-loop-replied : goal.invariant-loop-replied
invariant-loop-replied l = record { put : put_lists (put_all l.ordered.items l.replied-iterator.rest.items) l.list-iterator.rest.items ≡ put_lists (blanks l.count) l.fn.replies.items }
