-- Each file whose entry is known to be durable had it synced, whatever else comes of the calls.
use Rattle.std.proofs.Common.{◌≡◌, ℕ, ◌<◌, true, false, List, [], ◌∷◌, ◌++◌, length, get_or, set, sym, ◌∙◌, refl, subst, arith}
use Rattle.std.specs.Prelude.{Contains}
use Rattle.std.proofs.lemmas.List.Elements.{All-append, All-nil, All-push, All-set, Contains-append_left, Contains-append_right}
use Rattle.coco_host.specs.FileCalls.{HaveEntered, IsPlaceOf}
use Rattle.coco_host.specs.declared.opened.Opened.{Opened}
use Rattle.coco_host.specs.declared.opened.FileCall.{FileCall}
use Rattle.coco_host.specs.declared.opened.FileCall.TheVariants.{Entered}

abbrev HadEntered : List FileCall → Opened → Type 0
HadEntered calls f = f.is_entered ≡ true → Contains calls (Entered f.number)

pub none_entered : (calls : List FileCall) → HaveEntered calls []
none_entered calls = All-nil (HadEntered calls)

pub entered_more : (calls more : List FileCall) (files : List Opened) → HaveEntered calls files → HaveEntered (calls ++ more) files
entered_more calls more files all k d less is = Contains-append_left calls more (Entered (get_or files k d).number) (all k d less is)

pub entered_push : (calls : List FileCall) (files : List Opened) (f : Opened) → f.is_entered ≡ false → HaveEntered calls files → HaveEntered calls (files ++ f ∷ [])
entered_push calls files f new all = All-push (HadEntered calls) files f all (λ is. let w : false ≡ true = sym new ∙ is in cc)

pub entered_set : (calls : List FileCall) (files : List Opened) (place : ℕ) (f : Opened) → Contains calls (Entered f.number) → HaveEntered calls files → HaveEntered calls (set files place f)
entered_set calls files place f there all = All-set (HadEntered calls) files place f (λ _. there) all

pub last_call : (calls : List FileCall) (call : FileCall) → Contains (calls ++ call ∷ []) call
last_call calls call = Contains-append_right calls (call ∷ []) call (0, omega arith, refl)

pub entered_there : (calls : List FileCall) (files : List Opened) (n place : ℕ) (d : Opened) → HaveEntered calls files → IsPlaceOf n place files → (get_or files place d).is_entered ≡ true → Contains calls (Entered n)
entered_there calls files n place d all is entered = subst (λ (m : ℕ). Contains calls (Entered m)) (is.1 d) (all place d is.0 entered)

-- the place of a file that is pushed
pub place_pushed : (files : List Opened) (f : Opened) (n : ℕ) → f.number ≡ n → IsPlaceOf n (length files) (files ++ f ∷ [])
place_pushed [] f n is = (omega arith, λ d. is)
place_pushed (g ∷ files) f n is = let rest = place_pushed files f n is in (omega (arith, rest.0), rest.1)
