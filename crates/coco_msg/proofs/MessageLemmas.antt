-- Messages read back: what is read is spelled so, and what is spelled so is read.
use Rattle.std.proofs.Common.{◌≡◌, ℕ, ◌+◌, ◌^◌, ◌<◌, Bool, true, cond, ltb, eqb, List, ◌∷◌, ◌++◌, length, Option, Some, None, Ok, Err, refl, sym, subst, arith}
use Rattle.std.proofs.lemmas.Bool.{ltb-true, lt-ltb, ltb-false, eqb-true, eqb-false, eq-eqb}
use Rattle.coco_types.specs.declared.call.Write.{Write}
use Rattle.coco_bytes.specs.declared.fault.FieldFault.{FieldFault}
use Rattle.coco_bytes.specs.declared.fault.FieldFault.TheVariants.{Bad}
use Rattle.coco_bytes.specs.Fields.{Stands, AreBytes, u8_bytes, flag_bytes, u32_bytes, u64_bytes}
use Rattle.coco_bytes.specs.Reads.{◌>>=◌, Read, Agree, u8_at, flag_at, u32_at, u64_at}
use Rattle.coco_bytes.specs.Lists.{counted, counted_at}
use Rattle.coco_bytes.specs.Values.{key_bytes, key_at, value_bytes, value_at}
use Rattle.coco_bytes.proofs.FieldLemmas.{bind_then, else_then, if_then, ok_then, pick, Stands-all, Stands-then, Stands-first, Stands-second, Stands-whole}
use Rattle.coco_bytes.proofs.NumberLemmas.{u8_agrees, flag_agrees, u32_agrees, u64_agrees}
use Rattle.coco_bytes.proofs.ListLemmas.{counted_agrees}
use Rattle.coco_bytes.proofs.ValueLemmas.{key_agrees, value_agrees}
use Rattle.coco_msg.specs.declared.message.Message.{Message}
use Rattle.coco_msg.specs.declared.message.Message.TheVariants.{Ship, Total, Missing, All, Prepare, Vote, Commit, Finished, Abort, Query, Tell}
use Rattle.coco_msg.specs.Bytes.{write_bytes, listed_bytes, ship_bytes, bytes_of, RisesFrom, IsPlace, IsWrite, ArePlaces, AreWrites, IsMessage}
use Rattle.coco_msg.specs.Reading.{write_at, rises, place_at, ship_at, listed_at, total_at, missing_at, all_at, decision_of, decision_at, fields_at, message_in}

-- ---- writes, places

write_found : (from : List ℕ) (at : ℕ) (w : Write) (end : ℕ) → AreBytes from → write_at from at ≡ Ok (w, end) → IsWrite w × Stands from at (write_bytes w) end
unfolding write_at
write_found from at w end fits e =
    bind_then (key_at from at) (λ key. value_at from key.1 >>= λ value. Ok (record { key = key.0; value = value.0 }, value.1)) (w, end) e (λ key one next.
    bind_then (value_at from key.1) (λ value. Ok (record { key = key.0; value = value.0 }, value.1)) (w, end) next (λ value two ok.
    let a = key_agrees.found from at key.0 key.1 fits one in
    let b = value_agrees.found from key.1 value.0 value.1 fits two in
    ok_then FieldFault (λ (p : Write × ℕ). IsWrite p.0 × Stands from at (write_bytes p.0) p.1) (record { key = key.0; value = value.0 }, value.1) (w, end) ok
    (record { key = a.0; value = b.0 }, Stands-then from at (key_bytes key.0) key.1 (value_bytes value.0) value.1 a.1 b.1)))

write_again : (from : List ℕ) (at : ℕ) (w : Write) (end : ℕ) → IsWrite w → Stands from at (write_bytes w) end → write_at from at ≡ Ok (w, end)
unfolding write_at
write_again from at w end fits p =
    let one = key_agrees.again from at w.key (at + length (key_bytes w.key)) fits.key (Stands-first from at (key_bytes w.key) (value_bytes w.value) end p) in
    let two = value_agrees.again from (at + length (key_bytes w.key)) w.value end fits.value (Stands-second from at (key_bytes w.key) (value_bytes w.value) end p) in
    rw (one, two) refl

pub write_agrees : Agree write_at write_bytes IsWrite
write_agrees = record { found = write_found; again = write_again }

writes_agree : Agree (counted_at (λ _. write_at)) (counted write_bytes) AreWrites
writes_agree = counted_agrees (λ _. write_at) write_bytes (λ _. IsWrite) (λ _. write_agrees)

rises_is : (before : Option ℕ) (place : ℕ) → rises before place ≡ true → RisesFrom before place
rises_is None place e = tt
rises_is (Some b) place e = ltb-true b place e

is_rises : (before : Option ℕ) (place : ℕ) → RisesFrom before place → rises before place ≡ true
is_rises None place h = refl
is_rises (Some b) place h = lt-ltb b place h

place_found : (before : Option ℕ) (from : List ℕ) (at place end : ℕ) → AreBytes from → place_at before from at ≡ Ok (place, end) → IsPlace before place × Stands from at (u32_bytes place) end
unfolding place_at
place_found before from at place end fits e =
    bind_then (u32_at from at) (λ (p : ℕ × ℕ). cond (rises before p.0) (Ok p) (Err (Bad at))) (place, end) e (λ p read test.
    if_then (rises before p.0) (Bad at) (Ok p) (place, end) test (λ up ok.
    let a = u32_agrees.found from at p.0 p.1 fits read in
    ok_then FieldFault (λ (q : ℕ × ℕ). IsPlace before q.0 × Stands from at (u32_bytes q.0) q.1) p (place, end) ok ((a.0, rises_is before p.0 up), a.1)))

place_again : (before : Option ℕ) (from : List ℕ) (at place end : ℕ) → IsPlace before place → Stands from at (u32_bytes place) end → place_at before from at ≡ Ok (place, end)
unfolding place_at
place_again before from at place end fits p = rw (u32_agrees.again from at place end fits.0 p, is_rises before place fits.1) refl

places_agree : Agree (counted_at place_at) (counted u32_bytes) ArePlaces
places_agree = counted_agrees place_at u32_bytes IsPlace (λ before. record { found = place_found before; again = place_again before })

-- ---- messages, found

-- A message whose bytes stand from start to end
IsIn : List ℕ → ℕ → Message × ℕ → Type 0
IsIn from start p = IsMessage p.0 × Stands from start (bytes_of p.0) p.1

ship_found : (from : List ℕ) (start at : ℕ) (p : Message × ℕ) → AreBytes from → Stands from start (u8_bytes 1) at → ship_at from at ≡ Ok p → IsIn from start p
unfolding ship_at IsIn
ship_found from start at p fits tag e =
    bind_then (u64_at from at) (λ epoch. u8_at from epoch.1 >>= λ partition. u32_at from partition.1 >>= λ place. u64_at from place.1 >>= λ time. counted_at (λ _. write_at) from time.1 >>= λ writes. Ok (Ship epoch.0 partition.0 place.0 time.0 writes.0, writes.1)) p e (λ epoch e1 r1.
    bind_then (u8_at from epoch.1) (λ partition. u32_at from partition.1 >>= λ place. u64_at from place.1 >>= λ time. counted_at (λ _. write_at) from time.1 >>= λ writes. Ok (Ship epoch.0 partition.0 place.0 time.0 writes.0, writes.1)) p r1 (λ partition e2 r2.
    bind_then (u32_at from partition.1) (λ place. u64_at from place.1 >>= λ time. counted_at (λ _. write_at) from time.1 >>= λ writes. Ok (Ship epoch.0 partition.0 place.0 time.0 writes.0, writes.1)) p r2 (λ place e3 r3.
    bind_then (u64_at from place.1) (λ time. counted_at (λ _. write_at) from time.1 >>= λ writes. Ok (Ship epoch.0 partition.0 place.0 time.0 writes.0, writes.1)) p r3 (λ time e4 r4.
    bind_then (counted_at (λ _. write_at) from time.1) (λ writes. Ok (Ship epoch.0 partition.0 place.0 time.0 writes.0, writes.1)) p r4 (λ writes e5 ok.
    let a = u64_agrees.found from at epoch.0 epoch.1 fits e1 in
    let b = u8_agrees.found from epoch.1 partition.0 partition.1 fits e2 in
    let c = u32_agrees.found from partition.1 place.0 place.1 fits e3 in
    let d = u64_agrees.found from place.1 time.0 time.1 fits e4 in
    let f = writes_agree.found from time.1 writes.0 writes.1 fits e5 in
    let s4 = Stands-then from place.1 (u64_bytes time.0) time.1 (counted write_bytes writes.0) writes.1 d.1 f.1 in
    let s3 = Stands-then from partition.1 (u32_bytes place.0) place.1 (u64_bytes time.0 ++ counted write_bytes writes.0) writes.1 c.1 s4 in
    let s2 = Stands-then from epoch.1 (u8_bytes partition.0) partition.1 (u32_bytes place.0 ++ (u64_bytes time.0 ++ counted write_bytes writes.0)) writes.1 b.1 s3 in
    let s1 = Stands-then from at (u64_bytes epoch.0) epoch.1 (u8_bytes partition.0 ++ (u32_bytes place.0 ++ (u64_bytes time.0 ++ counted write_bytes writes.0))) writes.1 a.1 s2 in
    ok_then FieldFault (λ (q : Message × ℕ). IsMessage q.0 × Stands from start (bytes_of q.0) q.1) (Ship epoch.0 partition.0 place.0 time.0 writes.0, writes.1) p ok
    ((a.0, b.0, c.0, d.0, f.0), Stands-then from start (u8_bytes 1) at (ship_bytes epoch.0 partition.0 place.0 time.0 writes.0) writes.1 tag s1))))))

abbrev Listed : Type 0
Listed = ℕ × ℕ × List ℕ

-- epoch, partition and places that stand there
IsListed : List ℕ → ℕ → Listed × ℕ → Type 0
IsListed from at p = ((p.0.0 < 2 ^ 64) × (p.0.1 < 2 ^ 8) × ArePlaces p.0.2) × Stands from at (listed_bytes p.0.0 p.0.1 p.0.2) p.1

listed_found : (from : List ℕ) (at : ℕ) (p : Listed × ℕ) → AreBytes from → listed_at from at ≡ Ok p → IsListed from at p
unfolding listed_at IsListed
listed_found from at p fits e =
    bind_then (u64_at from at) (λ epoch. u8_at from epoch.1 >>= λ partition. counted_at place_at from partition.1 >>= λ places. Ok ((epoch.0, partition.0, places.0), places.1)) p e (λ epoch e1 r1.
    bind_then (u8_at from epoch.1) (λ partition. counted_at place_at from partition.1 >>= λ places. Ok ((epoch.0, partition.0, places.0), places.1)) p r1 (λ partition e2 r2.
    bind_then (counted_at place_at from partition.1) (λ places. Ok ((epoch.0, partition.0, places.0), places.1)) p r2 (λ places e3 ok.
    let a = u64_agrees.found from at epoch.0 epoch.1 fits e1 in
    let b = u8_agrees.found from epoch.1 partition.0 partition.1 fits e2 in
    let c = places_agree.found from partition.1 places.0 places.1 fits e3 in
    let s2 = Stands-then from epoch.1 (u8_bytes partition.0) partition.1 (counted u32_bytes places.0) places.1 b.1 c.1 in
    let s1 = Stands-then from at (u64_bytes epoch.0) epoch.1 (u8_bytes partition.0 ++ counted u32_bytes places.0) places.1 a.1 s2 in
    let P : Listed × ℕ → Type 0 = λ q. ((q.0.0 < 2 ^ 64) × (q.0.1 < 2 ^ 8) × ArePlaces q.0.2) × Stands from at (listed_bytes q.0.0 q.0.1 q.0.2) q.1 in
    ok_then FieldFault P ((epoch.0, partition.0, places.0), places.1) p ok ((a.0, b.0, c.0), s1))))

total_found : (from : List ℕ) (start at : ℕ) (p : Message × ℕ) → AreBytes from → Stands from start (u8_bytes 2) at → total_at from at ≡ Ok p → IsIn from start p
unfolding total_at IsIn IsListed
total_found from start at p fits tag e =
    bind_then (listed_at from at) (λ (l : Listed × ℕ). Ok (Total l.0.0 l.0.1 l.0.2, l.1)) p e (λ l read ok.
    let a = listed_found from at l fits read in
    ok_then FieldFault (λ (q : Message × ℕ). IsMessage q.0 × Stands from start (bytes_of q.0) q.1) (Total l.0.0 l.0.1 l.0.2, l.1) p ok
    (a.0, Stands-then from start (u8_bytes 2) at (listed_bytes l.0.0 l.0.1 l.0.2) l.1 tag a.1))

missing_found : (from : List ℕ) (start at : ℕ) (p : Message × ℕ) → AreBytes from → Stands from start (u8_bytes 3) at → missing_at from at ≡ Ok p → IsIn from start p
unfolding missing_at IsIn IsListed
missing_found from start at p fits tag e =
    bind_then (listed_at from at) (λ (l : Listed × ℕ). Ok (Missing l.0.0 l.0.1 l.0.2, l.1)) p e (λ l read ok.
    let a = listed_found from at l fits read in
    ok_then FieldFault (λ (q : Message × ℕ). IsMessage q.0 × Stands from start (bytes_of q.0) q.1) (Missing l.0.0 l.0.1 l.0.2, l.1) p ok
    (a.0, Stands-then from start (u8_bytes 3) at (listed_bytes l.0.0 l.0.1 l.0.2) l.1 tag a.1))

all_found : (from : List ℕ) (start at : ℕ) (p : Message × ℕ) → AreBytes from → Stands from start (u8_bytes 4) at → all_at from at ≡ Ok p → IsIn from start p
unfolding all_at IsIn
all_found from start at p fits tag e =
    bind_then (u64_at from at) (λ epoch. u8_at from epoch.1 >>= λ partition. Ok (All epoch.0 partition.0, partition.1)) p e (λ epoch e1 r1.
    bind_then (u8_at from epoch.1) (λ partition. Ok (All epoch.0 partition.0, partition.1)) p r1 (λ partition e2 ok.
    let a = u64_agrees.found from at epoch.0 epoch.1 fits e1 in
    let b = u8_agrees.found from epoch.1 partition.0 partition.1 fits e2 in
    let s1 = Stands-then from at (u64_bytes epoch.0) epoch.1 (u8_bytes partition.0) partition.1 a.1 b.1 in
    ok_then FieldFault (λ (q : Message × ℕ). IsMessage q.0 × Stands from start (bytes_of q.0) q.1) (All epoch.0 partition.0, partition.1) p ok
    ((a.0, b.0), Stands-then from start (u8_bytes 4) at (u64_bytes epoch.0 ++ u8_bytes partition.0) partition.1 tag s1)))

-- a tag and an epoch that stand at the front of such a message
plain_found : (from : List ℕ) (start at tag k epoch : ℕ) (m : Message) (p : Message × ℕ) → Stands from start (tag ∷ u64_bytes epoch) at → eqb tag k ≡ true → bytes_of m ≡ k ∷ u64_bytes epoch → IsMessage m
    → ◌≡◌ {A = Read Message} (Ok (m, at)) (Ok p) → IsIn from start p
unfolding IsIn
plain_found from start at tag k epoch m p head is bytes good ok =
    ok_then FieldFault (λ (q : Message × ℕ). IsMessage q.0 × Stands from start (bytes_of q.0) q.1) (m, at) p ok
    (good, rw bytes (subst (λ (t : ℕ). Stands from start (t ∷ u64_bytes epoch) at) (eqb-true tag k is) head))

flagged_found : (from : List ℕ) (start at tag epoch : ℕ) (make : Bool → Message) (p : Message × ℕ) → AreBytes from → Stands from start (tag ∷ u64_bytes epoch) at
    → ((flag : Bool) → bytes_of (make flag) ≡ tag ∷ (u64_bytes epoch ++ flag_bytes flag)) → ((flag : Bool) → IsMessage (make flag))
    → (flag_at from at >>= λ (flag : Bool × ℕ). Ok (make flag.0, flag.1)) ≡ Ok p → IsIn from start p
unfolding IsIn
flagged_found from start at tag epoch make p fits head bytes good e =
    bind_then (flag_at from at) (λ (flag : Bool × ℕ). Ok (make flag.0, flag.1)) p e (λ flag read ok.
    let a = flag_agrees.found from at flag.0 flag.1 fits read in
    ok_then FieldFault (λ (q : Message × ℕ). IsMessage q.0 × Stands from start (bytes_of q.0) q.1) (make flag.0, flag.1) p ok
    (good flag.0, rw bytes (Stands-then from start (tag ∷ u64_bytes epoch) at (flag_bytes flag.0) flag.1 head a.1)))

decision_found : (tag epoch : ℕ) (from : List ℕ) (start at : ℕ) (p : Message × ℕ) → AreBytes from → epoch < 2 ^ 64 → Stands from start (tag ∷ u64_bytes epoch) at → 4 < tag → tag < 12 → decision_of tag epoch from at ≡ Ok p → IsIn from start p
unfolding decision_of
decision_found tag epoch from start at p fits below head low high e =
    let retagged : (k : ℕ) → tag ≡ k → Stands from start (k ∷ u64_bytes epoch) at = λ k same. subst (λ (t : ℕ). Stands from start (t ∷ u64_bytes epoch) at) same head in
    pick (eqb tag 5) _ _ _ e (λ is ok. plain_found from start at tag 5 epoch (Prepare epoch) p head is refl below ok) (λ not5 e5.
    pick (eqb tag 6) _ _ _ e5 (λ is ok. flagged_found from start at 6 epoch (Vote epoch) p fits (retagged 6 (eqb-true tag 6 is)) (λ _. refl) (λ _. below) ok) (λ not6 e6.
    pick (eqb tag 7) _ _ _ e6 (λ is ok. plain_found from start at tag 7 epoch (Commit epoch) p head is refl below ok) (λ not7 e7.
    pick (eqb tag 8) _ _ _ e7 (λ is ok. plain_found from start at tag 8 epoch (Finished epoch) p head is refl below ok) (λ not8 e8.
    pick (eqb tag 9) _ _ _ e8 (λ is ok. plain_found from start at tag 9 epoch (Abort epoch) p head is refl below ok) (λ not9 e9.
    pick (eqb tag 10) _ _ _ e9 (λ is ok. plain_found from start at tag 10 epoch (Query epoch) p head is refl below ok) (λ not10 e10.
    let last : tag ≡ 11 = omega (arith, eqb-false tag 5 not5, eqb-false tag 6 not6, eqb-false tag 7 not7, eqb-false tag 8 not8, eqb-false tag 9 not9, eqb-false tag 10 not10) in
    flagged_found from start at 11 epoch (Tell epoch) p fits (retagged 11 last) (λ _. refl) (λ _. below) e10))))))

fields_found : (tag : ℕ) (from : List ℕ) (start at : ℕ) (p : Message × ℕ) → AreBytes from → Stands from start (u8_bytes tag) at → fields_at tag from at ≡ Ok p → IsIn from start p
unfolding fields_at decision_at
fields_found tag from start at p fits head e =
    let retagged : (k : ℕ) → eqb tag k ≡ true → Stands from start (u8_bytes k) at = λ k is. subst (λ (t : ℕ). Stands from start (u8_bytes t) at) (eqb-true tag k is) head in
    else_then (eqb tag 0) (Bad 0) _ p e (λ not0 e0.
    else_then (ltb 11 tag) (Bad 0) _ p e0 (λ small e1.
    pick (eqb tag 1) _ _ _ e1 (λ is ok. ship_found from start at p fits (retagged 1 is) ok) (λ not1 e2.
    pick (eqb tag 2) _ _ _ e2 (λ is ok. total_found from start at p fits (retagged 2 is) ok) (λ not2 e3.
    pick (eqb tag 3) _ _ _ e3 (λ is ok. missing_found from start at p fits (retagged 3 is) ok) (λ not3 e4.
    pick (eqb tag 4) _ _ _ e4 (λ is ok. all_found from start at p fits (retagged 4 is) ok) (λ not4 ok.
    bind_then (u64_at from at) (λ (epoch : ℕ × ℕ). decision_of tag epoch.0 from epoch.1) p ok (λ epoch read next.
    let a = u64_agrees.found from at epoch.0 epoch.1 fits read in
    let whole = Stands-then from start (u8_bytes tag) at (u64_bytes epoch.0) epoch.1 head a.1 in
    let low : 4 < tag = omega (arith, eqb-false tag 0 not0, eqb-false tag 1 not1, eqb-false tag 2 not2, eqb-false tag 3 not3, eqb-false tag 4 not4) in
    decision_found tag epoch.0 from start epoch.1 p fits a.0 whole low (omega (arith, ltb-false 11 tag small)) next)))))))

-- what is read is a message, and the bytes are its bytes
pub message_found : (from : List ℕ) (m : Message) → AreBytes from → message_in from ≡ Ok m → IsMessage m × (from ≡ bytes_of m)
unfolding message_in IsIn
message_found from m fits e =
    bind_then (u8_at from 0) (λ (tag : ℕ × ℕ). fields_at tag.0 from tag.1 >>= λ (p : Message × ℕ). cond (eqb (length from) p.1) (Ok p.0) (Err (Bad p.1))) m e (λ tag read next.
    bind_then (fields_at tag.0 from tag.1) (λ (p : Message × ℕ). cond (eqb (length from) p.1) (Ok p.0) (Err (Bad p.1))) m next (λ p fields test.
    if_then (eqb (length from) p.1) (Bad p.1) (Ok p.0) m test (λ all ok.
    let a = u8_agrees.found from 0 tag.0 tag.1 fits read in
    let b = fields_found tag.0 from 0 tag.1 p fits a.1 fields in
    let whole : Stands from 0 (bytes_of p.0) (length from) = subst (λ (k : ℕ). Stands from 0 (bytes_of p.0) k) (sym (eqb-true (length from) p.1 all)) b.1 in
    ok_then FieldFault (λ (q : Message). IsMessage q × (from ≡ bytes_of q)) p.0 m ok (b.0, Stands-whole from (bytes_of p.0) whole))))

-- ---- messages, again

ship_again : (from : List ℕ) (at epoch partition place time : ℕ) (writes : List Write) (end : ℕ) → IsMessage (Ship epoch partition place time writes) → Stands from at (ship_bytes epoch partition place time writes) end
    → ship_at from at ≡ Ok (Ship epoch partition place time writes, end)
unfolding ship_at
ship_again from at epoch partition place time writes end fits p =
    let tail4 = counted write_bytes writes in
    let tail3 = u64_bytes time ++ tail4 in
    let tail2 = u32_bytes place ++ tail3 in
    let tail1 = u8_bytes partition ++ tail2 in
    let p1 = Stands-second from at (u64_bytes epoch) tail1 end p in
    let p2 = Stands-second from (at + 8) (u8_bytes partition) tail2 end p1 in
    let p3 = Stands-second from (at + 8 + 1) (u32_bytes place) tail3 end p2 in
    let p4 = Stands-second from (at + 8 + 1 + 4) (u64_bytes time) tail4 end p3 in
    let e1 = u64_agrees.again from at epoch (at + 8) fits.0 (Stands-first from at (u64_bytes epoch) tail1 end p) in
    let e2 = u8_agrees.again from (at + 8) partition (at + 8 + 1) fits.1 (Stands-first from (at + 8) (u8_bytes partition) tail2 end p1) in
    let e3 = u32_agrees.again from (at + 8 + 1) place (at + 8 + 1 + 4) fits.2 (Stands-first from (at + 8 + 1) (u32_bytes place) tail3 end p2) in
    let e4 = u64_agrees.again from (at + 8 + 1 + 4) time (at + 8 + 1 + 4 + 8) fits.3 (Stands-first from (at + 8 + 1 + 4) (u64_bytes time) tail4 end p3) in
    let e5 = writes_agree.again from (at + 8 + 1 + 4 + 8) writes end fits.4 p4 in
    rw (e1, e2, e3, e4, e5) refl

listed_again : (from : List ℕ) (at epoch partition : ℕ) (places : List ℕ) (end : ℕ) → (epoch < 2 ^ 64) × (partition < 2 ^ 8) × ArePlaces places → Stands from at (listed_bytes epoch partition places) end
    → listed_at from at ≡ Ok ((epoch, partition, places), end)
unfolding listed_at
listed_again from at epoch partition places end fits p =
    let tail2 = counted u32_bytes places in
    let tail1 = u8_bytes partition ++ tail2 in
    let p1 = Stands-second from at (u64_bytes epoch) tail1 end p in
    let p2 = Stands-second from (at + 8) (u8_bytes partition) tail2 end p1 in
    let e1 = u64_agrees.again from at epoch (at + 8) fits.0 (Stands-first from at (u64_bytes epoch) tail1 end p) in
    let e2 = u8_agrees.again from (at + 8) partition (at + 8 + 1) fits.1 (Stands-first from (at + 8) (u8_bytes partition) tail2 end p1) in
    let e3 = places_agree.again from (at + 8 + 1) places end fits.2 p2 in
    rw (e1, e2, e3) refl

all_again : (from : List ℕ) (at epoch partition end : ℕ) → (epoch < 2 ^ 64) × (partition < 2 ^ 8) → Stands from at (u64_bytes epoch ++ u8_bytes partition) end → all_at from at ≡ Ok (All epoch partition, end)
unfolding all_at
all_again from at epoch partition end fits p =
    let p1 = Stands-second from at (u64_bytes epoch) (u8_bytes partition) end p in
    let e1 = u64_agrees.again from at epoch (at + 8) fits.0 (Stands-first from at (u64_bytes epoch) (u8_bytes partition) end p) in
    let e2 = u8_agrees.again from (at + 8) partition end fits.1 p1 in
    rw (e1, e2) refl

-- the message whose tag and fields stand at the front
tagged_again : (from : List ℕ) (tag : ℕ) (fields : List ℕ) (m : Message) → tag < 2 ^ 8 → from ≡ tag ∷ fields → (Stands from 1 fields (length from) → fields_at tag from 1 ≡ Ok (m, length from)) → message_in from ≡ Ok m
unfolding message_in
tagged_again from tag fields m small same read =
    let whole = Stands-all from (u8_bytes tag ++ fields) same in
    let e1 = u8_agrees.again from 0 tag 1 small (Stands-first from 0 (u8_bytes tag) fields (length from) whole) in
    let e2 = read (Stands-second from 0 (u8_bytes tag) fields (length from) whole) in
    rw (e1, e2, eq-eqb (length from) (length from) refl) refl

plain_again : (from : List ℕ) (at tag epoch end : ℕ) (m : Message) → epoch < 2 ^ 64 → Stands from at (u64_bytes epoch) end → ((at : ℕ) → decision_of tag epoch from at ≡ Ok (m, at)) → decision_at tag from at ≡ Ok (m, end)
unfolding decision_at
plain_again from at tag epoch end m below p is = rw (u64_agrees.again from at epoch end below p) (is end)

flagged_again : (from : List ℕ) (at tag epoch : ℕ) (flag : Bool) (end : ℕ) (make : Bool → Message) → epoch < 2 ^ 64 → Stands from at (u64_bytes epoch ++ flag_bytes flag) end
    → ((at : ℕ) → decision_of tag epoch from at ≡ (flag_at from at >>= λ f. Ok (make f.0, f.1))) → decision_at tag from at ≡ Ok (make flag, end)
unfolding decision_at
flagged_again from at tag epoch flag end make below p is =
    let e1 = u64_agrees.again from at epoch (at + 8) below (Stands-first from at (u64_bytes epoch) (flag_bytes flag) end p) in
    let e2 = flag_agrees.again from (at + 8) flag end tt (Stands-second from at (u64_bytes epoch) (flag_bytes flag) end p) in
    rw (e1, is (at + 8), e2) refl

-- the bytes of a message are read
pub message_again : (from : List ℕ) (m : Message) → IsMessage m → from ≡ bytes_of m → message_in from ≡ Ok m
unfolding fields_at decision_of total_at missing_at
message_again from (Ship epoch partition place time writes) fits same = tagged_again from 1 _ _ (omega arith) same (λ p. ship_again from 1 epoch partition place time writes (length from) fits p)
message_again from (Total epoch partition places) fits same = tagged_again from 2 _ _ (omega arith) same (λ p. rw (listed_again from 1 epoch partition places (length from) fits p) refl)
message_again from (Missing epoch partition places) fits same = tagged_again from 3 _ _ (omega arith) same (λ p. rw (listed_again from 1 epoch partition places (length from) fits p) refl)
message_again from (All epoch partition) fits same = tagged_again from 4 _ _ (omega arith) same (λ p. all_again from 1 epoch partition (length from) fits p)
message_again from (Prepare epoch) fits same = tagged_again from 5 _ _ (omega arith) same (λ p. plain_again from 1 5 epoch (length from) (Prepare epoch) fits p (λ at. refl))
message_again from (Vote epoch vote) fits same = tagged_again from 6 _ _ (omega arith) same (λ p. flagged_again from 1 6 epoch vote (length from) (Vote epoch) fits p (λ at. refl))
message_again from (Commit epoch) fits same = tagged_again from 7 _ _ (omega arith) same (λ p. plain_again from 1 7 epoch (length from) (Commit epoch) fits p (λ at. refl))
message_again from (Finished epoch) fits same = tagged_again from 8 _ _ (omega arith) same (λ p. plain_again from 1 8 epoch (length from) (Finished epoch) fits p (λ at. refl))
message_again from (Abort epoch) fits same = tagged_again from 9 _ _ (omega arith) same (λ p. plain_again from 1 9 epoch (length from) (Abort epoch) fits p (λ at. refl))
message_again from (Query epoch) fits same = tagged_again from 10 _ _ (omega arith) same (λ p. plain_again from 1 10 epoch (length from) (Query epoch) fits p (λ at. refl))
message_again from (Tell epoch committed) fits same = tagged_again from 11 _ _ (omega arith) same (λ p. flagged_again from 1 11 epoch committed (length from) (Tell epoch) fits p (λ at. refl))
