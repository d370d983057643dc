-- The limits of this project: what passes one is a fault or a refusal, and no wrong answer. Each is the greatest number that
-- is within.
--
--   most_file_bytes      bytes of one file
--   most_levels          elements that are open at one place of a file
--   most_nodes           elements, texts, comments and processing instructions of a document
--   most_name_bytes      bytes of the name of a file
--   most_script_bytes    bytes of a script
--   most_commands        commands of a script
--   most_saved_files     files that one save writes or removes
--   most_saved_bytes     bytes of all the files that one save writes
use Rattle.std.specs.Prelude.{ℕ}

abbrev pub most_file_bytes : ℕ
most_file_bytes = 4194304

abbrev pub most_levels : ℕ
most_levels = 128

abbrev pub most_nodes : ℕ
most_nodes = 1000000

abbrev pub most_name_bytes : ℕ
most_name_bytes = 255

abbrev pub most_script_bytes : ℕ
most_script_bytes = 1048576

abbrev pub most_commands : ℕ
most_commands = 4096

abbrev pub most_saved_files : ℕ
most_saved_files = 5120

abbrev pub most_saved_bytes : ℕ
most_saved_bytes = 67108864
