-- A text that begins with none of the words of a setting is none.
use Rattle.std.proofs.Common.{◌≡◌, ℕ, List, ◌++◌, codes}
use Rattle.rpc_ids.specs.declared.method.Role.TheVariants.{Server, Client}
use Rattle.link_script.specs.declared.text.line.Setting.{Setting}
use Rattle.link_script.specs.declared.text.line.Setting.TheVariants.{Chunk, Window, Full, Left}
use Rattle.link_script.specs.text.Lines.{IsSettingLine}

abbrev pub BeginsElse : List ℕ → List ℕ → Type 0
BeginsElse word text = (rest : List ℕ) → text ≡ word ++ rest → ⊥

pub no_setting : (text : List ℕ) → BeginsElse (codes "chunk ") text → BeginsElse (codes "window ") text → BeginsElse (codes "server ") text →
    BeginsElse (codes "client ") text → BeginsElse (codes "left server ") text → BeginsElse (codes "left client ") text →
    (s : Setting) → IsSettingLine text s → ⊥
no_setting text chunk window server client left_server left_client (Chunk size) is = chunk _ is.0
no_setting text chunk window server client left_server left_client (Window chunks) is = window _ is.0
no_setting text chunk window server client left_server left_client (Full Server s) is = server _ is.0
no_setting text chunk window server client left_server left_client (Full Client s) is = client _ is.0
no_setting text chunk window server client left_server left_client (Left Server s) is = left_server _ is.0
no_setting text chunk window server client left_server left_client (Left Client s) is = left_client _ is.0
