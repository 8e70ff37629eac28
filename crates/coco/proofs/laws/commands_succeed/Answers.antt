use Rattle.coco.proofs.SuccessLemmas.{compact_succeeds, dump_succeeds, few_lines_have_numbers, few_requests_have_numbers, init_succeeds, migrate_succeeds, query_succeeds, rebuild_succeeds, run_succeeds, try_succeeds, verify_succeeds}
use Rattle.coco.proofs.laws.commands_succeed.Goals as goal

pub returns-clause-run : goal.returns-clause-run
returns-clause-run g c = run_succeeds g.H.Host c.a_refused_store_is_none.ensures.none

pub returns-clause-tries : goal.returns-clause-tries
returns-clause-tries g c = try_succeeds g.H.Host c.a_refused_store_is_none.ensures.none

pub returns-clause-init : goal.returns-clause-init
returns-clause-init g c = init_succeeds g.H.Host c.one_answer.ensures

pub returns-clause-dump : goal.returns-clause-dump
returns-clause-dump g c = dump_succeeds g.H.Host c.a_refused_store_is_none.ensures.none

pub returns-clause-verify : goal.returns-clause-verify
returns-clause-verify g c = verify_succeeds g.H.Host c.a_refused_store_is_none.ensures.none

pub returns-clause-migrate : goal.returns-clause-migrate
returns-clause-migrate g c = migrate_succeeds g.H.Host c.a_refused_store_is_none.ensures.none

pub returns-clause-compact : goal.returns-clause-compact
returns-clause-compact g c = compact_succeeds g.H.Host c.a_refused_store_is_none.ensures.none

pub returns-clause-rebuild : goal.returns-clause-rebuild
returns-clause-rebuild g c = rebuild_succeeds g.H.Host

pub returns-clause-query : goal.returns-clause-query
returns-clause-query g c = query_succeeds g.H.Host c.a_refused_store_is_none.ensures.none

pub returns-clause-numbers : goal.returns-clause-numbers
returns-clause-numbers g c = few_lines_have_numbers

pub returns-clause-numbers_for : goal.returns-clause-numbers_for
returns-clause-numbers_for g c = few_requests_have_numbers
