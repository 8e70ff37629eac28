use Rattle.std.proofs.Common.{◌≡◌, ◌-◌, ◌∙◌, ◌++◌, ◌<◌, [], None, length, arith, ap, sym}
use Rattle.json.specs.Json.{parse_map, after_end_array}
use Rattle.coco_lines.proofs.TokenLemmas.{args_read, none_before, arg_turn, args_over, arg_shorter}
use Rattle.coco_lines.proofs.plain.args_of.Goals as goal

pub items-init : goal.items-init
items-init c =
    let all = args_read (length c.args.reader.now) c.args.reader.now in
    let empty : c.in_ok-args.args ≡ [] = grind arith in
    (length c.args.reader.now, omega arith, none_before all ∙ ap (λ args. parse_map (λ more. args ++ more) all) (sym empty))

pub items-smaller : goal.items-smaller
items-smaller c =
    let l = c.items in
    let going : (after_end_array l.reader ≡ None) × (c.take_end_array.new.self ≡ l.reader) = grind arith in
    let pushed = c.in_ok-push_arg.ensures in
    let less : length c.push_arg.new.reader < length l.reader = rw (← going.1) (arg_shorter pushed.0 _ _ pushed.1) in
    less

pub items-preserved : goal.items-preserved
items-preserved c =
    let l = c.items in
    let n = l.invariant.0 in
    let going : (after_end_array l.reader ≡ None) × (c.take_end_array.new.self ≡ l.reader) = grind arith in
    let pushed = c.in_ok-push_arg.ensures in
    let r = c.push_arg.new.reader in
    let less : length r < length l.reader = rw (← going.1) (arg_shorter pushed.0 _ _ pushed.1) in
    let turn = arg_turn l.args pushed.0 n l.reader r (omega (arith, l.invariant.1)) going.0 (rw (← going.1) pushed.1) in (
      n - 1,
      omega (arith, l.invariant.1),
      l.invariant.2 ∙ turn ∙ ap (λ args. parse_map (λ more. args ++ more) (args_read (n - 1) r)) (sym pushed.2),
    )

pub returns : goal.returns
returns c =
    let l = c.items in
    l.invariant.2 ∙ args_over l.args l.invariant.0 l.reader c.take_end_array.new.self l.invariant.1 (grind arith)
