use Rattle.std.proofs.Common.{◌≡◌, List, [], ◌∷◌, ◌++◌, Option, length, sym, ap, ◌∙◌, subst}
use Rattle.std.specs.Option.{option_copied}
use Rattle.coco_types.specs.declared.value.Value.{Value}
use Rattle.coco_desks.proofs.GainLemmas.{still_of}
use Rattle.coco_eval.specs.declared.machine.Given.{Given}
use Rattle.coco_query.specs.Reading.{Reads, given_by}
use Rattle.coco_query.proofs.ReadingLemmas.{ends_on, given_more, reads_then}
use Rattle.coco_query.proofs.reading.read_all.Goals as goal

pub get-requires-clause-locks : goal.get-requires-clause-locks
get-requires-clause-locks g c = still_of c.args.tables.now c.args.passes.now c.loop-key.passes c.requires.locks c.loop-key.invariant.same

pub loop-key-preserved : goal.loop-key-preserved
loop-key-preserved g c =
    let was = c.loop-key.invariant in
    let had : List Given = c.loop-key.had in
    let one : Given = given_by c.in-Some.key c.get.new.answer in
    let is : c.in_ok-of-in-Some.field-0 ≡ one = c.in_ok-of-in-Some.ensures ∙ sym (ap (given_by c.in-Some.key) c.value-value.ensures) in
    let more : c.push.new.self ≡ had ++ one ∷ [] = c.in_ok-push-in-Some.ensures.ok ∙ ap (λ (x : Given). had ++ x ∷ []) is in
    let value : c.in_ok-of-in-Some.field-0 ≡ record { key = c.in-Some.key; value = option_copied c.as_ref.result } =
    c.in_ok-of-in-Some.ensures ∙ ap (λ (v : Option Value). let x : Given = record { key = c.in-Some.key; value = v } in x) (sym c.as_ref.ensures.value) in
    let next = given_more c.loop-key.running c.next_key.new.self c.give_lent.new.self c.in-Some.key _ had c.push.new.self c.in_ok-of-in-Some.field-0 c.next_key.ensures.others (c.give_lent.ensures c.in-Some.key c.in-Some.ensures.key) was.given c.in_ok-push-in-Some.ensures.ok value in
    record {
      procs = next.procs ∙ was.procs;
      call = next.call_same ∙ was.call;
      ready = next.ready;
      given = next.given;
      same = c.get.ensures.same ∙ was.same;
      reads = subst (Reads (length c.args.tables.now) c.args.passes.now c.get.new.passes) (sym more)
          (reads_then (length c.args.tables.now) c.args.passes.now c.loop-key.passes c.get.new.passes had (one ∷ []) was.same was.reads c.in_ok-get-in-Some.ensures.reads);
    }

pub returns-in-None-clause-ended : goal.returns-in-None-clause-ended
returns-in-None-clause-ended g c =
    let was = c.loop-key.invariant in
    let key = c.in-None.ensures.key in
    (key.0, key.1, key.2, ends_on c.args.running.now c.loop-key.running c.next_key.new.self c.loop-key.had key.0 key.1 was.procs was.call was.given c.next_key.ensures.others key.2 c.next_key.ensures.sound)
