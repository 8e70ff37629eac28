-- The text of an opened store is that of what its files hold.
use Rattle.std.proofs.Common.{◌≡◌, List, None, ap, ◌∙◌}
use Rattle.coco_types.specs.declared.call.Done.{Done}
use Rattle.coco_ast.specs.History.{all_dones}
use Rattle.coco_ast.specs.Tree.{Procedures}
use Rattle.coco_audit.specs.Texts.{dump_text}
use Rattle.coco_kept.proofs.KeepLemmas.{kept_all}
use Rattle.coco_recover.specs.Opening.{Has}
use Rattle.coco_recover.specs.declared.opening.Opened.{Opened}
use Rattle.coco_store.specs.Contents.{Contents, history_of, map_in}
use Rattle.coco_commands.specs.Telling.{dump_in}

module _ (c : Contents) (store : Opened) (has : Has None c store) where
  -- the Dones of the store are all of the history's
  pub text_with_map : dump_text store.procs store.kept.dones (map_in c) ≡ dump_in c
  text_with_map =
      ap (λ (procs : Procedures). dump_text procs store.kept.dones (map_in c)) has.procs
      ∙ ap (λ (dones : List Done). dump_text c.setting.tree dones (map_in c)) (has.dones ∙ kept_all (all_dones (history_of c)))
