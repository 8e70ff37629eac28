-- The limits that several crates share, as the code has them.
use Rattle.std.specs.Prelude.{ℕ}
use Rattle.coco_types.specs.declared.limits.TheConstants.{MOST_KEPT, MOST_KEEP, MOST_ARGUMENTS, MOST_TEXT_BYTES, MOST_KEYS, MOST_BOUND, MOST_TURNS, MOST_DECLARED, MOST_BATCH_LINES, MOST_LINE_BYTES, MOST_PROCEDURE_BYTES, MOST_TIME, EPOCHS_END, MOST_INPUT_BYTES, FILES_END, MOST_NODES, MOST_PARTITIONS, MOST_COPIES, MOST_WORKERS, MOST_ATTEMPTS}

abbrev pub most_kept : ℕ
most_kept = MOST_KEPT

abbrev pub most_keep : ℕ
most_keep = MOST_KEEP

abbrev pub most_arguments : ℕ
most_arguments = MOST_ARGUMENTS

abbrev pub most_text_bytes : ℕ
most_text_bytes = MOST_TEXT_BYTES

abbrev pub most_keys : ℕ
most_keys = MOST_KEYS

abbrev pub most_bound : ℕ
most_bound = MOST_BOUND

abbrev pub most_turns : ℕ
most_turns = MOST_TURNS

abbrev pub most_declared : ℕ
most_declared = MOST_DECLARED

abbrev pub most_batch_lines : ℕ
most_batch_lines = MOST_BATCH_LINES

abbrev pub most_line_bytes : ℕ
most_line_bytes = MOST_LINE_BYTES

abbrev pub most_procedure_bytes : ℕ
most_procedure_bytes = MOST_PROCEDURE_BYTES

abbrev pub most_time : ℕ
most_time = MOST_TIME

abbrev pub epochs_end : ℕ
epochs_end = EPOCHS_END

abbrev pub most_input_bytes : ℕ
most_input_bytes = MOST_INPUT_BYTES

abbrev pub files_end : ℕ
files_end = FILES_END

abbrev pub most_nodes : ℕ
most_nodes = MOST_NODES

abbrev pub most_partitions : ℕ
most_partitions = MOST_PARTITIONS

abbrev pub most_copies : ℕ
most_copies = MOST_COPIES

abbrev pub most_workers : ℕ
most_workers = MOST_WORKERS

abbrev pub most_attempts : ℕ
most_attempts = MOST_ATTEMPTS
