-- Scripts with what is told of their runs.
use Rattle.std.specs.Prelude.{◌≡◌, ℕ, List, [], ◌∷◌, Some, None}
use Rattle.link_script.specs.declared.command.Command.{Command}
use Rattle.link_script.specs.declared.command.Command.TheVariants.{Read, Write, Echo, Count, Sum, Chat, Close}
use Rattle.link_script.specs.declared.loss.Loss.{Loss}
use Rattle.link_script.specs.declared.loss.Loss.TheVariants.{Lose, Repeat, Swap, Flip}
use Rattle.link_script.specs.declared.report.Report.{Report}
use Rattle.link_script.specs.declared.report.ReportLine.{ReportLine}
use Rattle.link_script.specs.declared.report.ReportLine.TheVariants as line
use Rattle.link_script.specs.declared.script.Script.{Script}
use Rattle.link_script.specs.declared.stock.Stock.{Stock}
use Rattle.link_script.specs.Script.{new_script}
use Rattle.rpc_ids.specs.declared.status.Status.TheVariants.{Okay, Cancelled, NotFound, DeadlineExceeded, Unavailable}
use Rattle.link_laws.specs.world.Reports.{report_of}
use Rattle.link_laws.specs.world.Setup.{setup_of}
use Rattle.link_laws.specs.world.Turns.{Turned}
use Rattle.link_laws.specs.world.World.{World}

-- the script has a run, and this is told of it
abbrev pub HasRun : Script → Report → Type 0
HasRun s r = (now : World) × Turned (setup_of s) s.commands now × (report_of (setup_of s) now ≡ r)

-- a script, and what is told of its run
pub record Row : Type 0 where
  pub script : Script
  pub report : Report

abbrev pub IsRow : Row → Type 0
IsRow r = HasRun r.script r.report

abbrev pub stock : ℕ → ℕ → Stock
stock id size = record { id = id; len = size; seed = 1 }

-- the server has resource 7, with so many bytes, and the client reads it from the start on; some frames are lost
abbrev pub reading : ℕ → List (ℕ × Loss) → Script
reading length losses = record new_script { server = stock 7 length ∷ []; losses = losses; commands = Read 7 0 ∷ [] }

-- the client has it, and writes it
abbrev pub writing : ℕ → List (ℕ × Loss) → Script
writing length losses = record new_script { client = stock 7 length ∷ []; losses = losses; commands = Write 7 0 ∷ [] }

-- one command, and nothing in the stores
abbrev pub asking : Command → List (ℕ × Loss) → Script
asking command losses = record new_script { losses = losses; commands = command ∷ [] }

-- what is told of one command: its line, the frames, the deliveries, the chunks, and of resource 7, where it is whole then
abbrev pub told_of : ReportLine → ℕ → ℕ → ℕ → List (ℕ × ℕ) → List (ℕ × ℕ) → Report
told_of ended frames delivered chunks server client =
    record { lines = ended ∷ []; frames = frames; delivered = delivered; chunks = chunks; server = server; client = client }

abbrev pub resource_7 : ℕ → List (ℕ × ℕ)
resource_7 length = (7, length) ∷ []

-- a read of 1,000 bytes: REQUEST, START, START_ACK, confirmation, four pieces, one ask for more, COMPLETION and its ACK
abbrev pub whole_read : Row
whole_read = record { script = reading 1000 []; report = told_of (line.Read 7 0 Okay 1000) 11 11 10 (resource_7 1000) (resource_7 1000) }

-- all of it is left at the client: one empty last piece is sent
abbrev pub nothing_left_to_read : Row
nothing_left_to_read = record {
  script = record new_script { server = stock 7 1000 ∷ []; left_client = stock 7 1000 ∷ []; commands = Read 7 1000 ∷ [] };
  report = told_of (line.Read 7 1000 Okay 1000) 7 7 6 (resource_7 1000) (resource_7 1000);
}

-- nothing is left: a read from 5 on begins at the start
abbrev pub read_without_what_was_left : Row
read_without_what_was_left = record {
  script = record new_script { server = stock 7 10 ∷ []; commands = Read 7 5 ∷ [] };
  report = told_of (line.Read 7 0 Okay 10) 7 7 6 (resource_7 10) (resource_7 10);
}

-- the last piece is lost: after 2,000 ms the client asks for it again
abbrev pub last_piece_lost : Row
last_piece_lost = record { script = reading 1000 ((8, Lose) ∷ []); report = told_of (line.Read 7 0 Okay 1000) 13 12 12 (resource_7 1000) (resource_7 1000) }

-- START comes twice, and START_ACK is sent twice
abbrev pub start_repeated : Row
start_repeated = record { script = reading 1000 ((2, Repeat) ∷ []); report = told_of (line.Read 7 0 Okay 1000) 12 13 11 (resource_7 1000) (resource_7 1000) }

-- the first piece comes behind the second: the window shrinks, and pieces are sent again
abbrev pub piece_swapped : Row
piece_swapped = record { script = reading 1000 ((5, Swap) ∷ []); report = told_of (line.Read 7 0 Okay 1000) 21 21 20 (resource_7 1000) (resource_7 1000) }

-- the last piece is damaged: it is delivered, and not heard
abbrev pub piece_damaged : Row
piece_damaged = record { script = reading 1000 ((8, Flip 100) ∷ []); report = told_of (line.Read 7 0 Okay 1000) 13 13 12 (resource_7 1000) (resource_7 1000) }

-- START is lost three times, and then four times
abbrev pub start_lost_thrice : Row
start_lost_thrice = record {
  script = reading 1000 ((2, Lose) ∷ (3, Lose) ∷ (4, Lose) ∷ []);
  report = told_of (line.Read 7 0 Okay 1000) 14 11 13 (resource_7 1000) (resource_7 1000);
}

abbrev pub start_always_lost : Row
start_always_lost = record {
  script = reading 1000 ((2, Lose) ∷ (3, Lose) ∷ (4, Lose) ∷ (5, Lose) ∷ []);
  report = told_of (line.Read 7 0 DeadlineExceeded 0) 5 1 4 (resource_7 1000) [];
}

-- a piece of a longer read is lost: the spans asked for are 4, 8, 4, 4 and 8
abbrev pub span_shrinks : Row
span_shrinks = record { script = reading 2560 ((7, Lose) ∷ []); report = told_of (line.Read 7 0 Okay 2560) 28 27 27 (resource_7 2560) (resource_7 2560) }

-- pieces of four bytes, and a window that begins with one of them
abbrev pub small_window : Row
small_window = record {
  script = record new_script { chunk = Some 4; window = Some 1; server = stock 7 10 ∷ []; commands = Read 7 0 ∷ [] };
  report = told_of (line.Read 7 0 Okay 10) 11 11 10 (resource_7 10) (resource_7 10);
}

-- a write of 1,000 bytes; the service asks for the first pieces with a chunk of its own
abbrev pub whole_write : Row
whole_write = record { script = writing 1000 []; report = told_of (line.Write 7 0 Okay 1000) 12 12 11 (resource_7 1000) (resource_7 1000) }

-- its confirmation is lost
abbrev pub confirmation_lost : Row
confirmation_lost = record { script = writing 1000 ((4, Lose) ∷ []); report = told_of (line.Write 7 0 Okay 1000) 13 12 12 (resource_7 1000) (resource_7 1000) }

-- the resource is whole at the server, and no COMPLETION ever comes to the client
abbrev pub completions_lost : Row
completions_lost = record {
  script = writing 10 ((7, Lose) ∷ (8, Lose) ∷ (9, Lose) ∷ (10, Lose) ∷ []);
  report = told_of (line.Write 7 0 DeadlineExceeded 10) 12 8 11 (resource_7 10) (resource_7 10);
}

-- of ten bytes four are left at the server: the client asks from 8 on, and both begin at 4
abbrev pub write_resumed : Row
write_resumed = record {
  script = record new_script { client = stock 7 10 ∷ []; left_server = stock 7 4 ∷ []; commands = Write 7 8 ∷ [] };
  report = told_of (line.Write 7 4 Okay 10) 8 8 7 (resource_7 10) (resource_7 10);
}

-- the client doesn't have the resource; the server doesn't have it
abbrev pub nothing_to_write : Row
nothing_to_write = record { script = asking (Write 7 0) []; report = told_of (line.Write 7 0 NotFound 0) 0 0 0 [] [] }

abbrev pub nothing_to_read : Row
nothing_to_read = record { script = asking (Read 7 0) []; report = told_of (line.Read 7 0 NotFound 0) 4 4 3 [] [] }

-- what was read is written back, in a second session
abbrev pub read_and_written : Row
read_and_written = record {
  script = record new_script { server = stock 7 10 ∷ []; commands = Read 7 0 ∷ Write 7 0 ∷ [] };
  report = record {
    lines = line.Read 7 0 Okay 10 ∷ line.Write 7 0 Okay 10 ∷ [];
    frames = 15;
    delivered = 15;
    chunks = 13;
    server = resource_7 10;
    client = resource_7 10;
  };
}

-- the server has listed its store before the write: the resource isn't there for a read
abbrev pub written_and_not_listed : Row
written_and_not_listed = record {
  script = record new_script { client = stock 7 10 ∷ []; commands = Write 7 0 ∷ Read 7 0 ∷ [] };
  report = record {
    lines = line.Write 7 0 Okay 10 ∷ line.Read 7 0 NotFound 0 ∷ [];
    frames = 12;
    delivered = 12;
    chunks = 10;
    server = resource_7 10;
    client = resource_7 10;
  };
}

-- COMPLETION_ACK of a write is lost, and then START of a read: as time passes, both ends speak again
abbrev pub completion_told_again : Row
completion_told_again = record {
  script = record new_script { client = stock 7 10 ∷ []; losses = (8, Lose) ∷ (10, Lose) ∷ []; commands = Write 7 0 ∷ Read 9 0 ∷ [] };
  report = record {
    lines = line.Write 7 0 Okay 10 ∷ line.Read 9 0 NotFound 0 ∷ [];
    frames = 14;
    delivered = 12;
    chunks = 12;
    server = resource_7 10;
    client = resource_7 10;
  };
}

-- calls of demo.Demo
abbrev pub echo_called : Row
echo_called = record { script = asking (Echo (97 ∷ 98 ∷ 99 ∷ [])) []; report = told_of (line.Echo Okay (97 ∷ 98 ∷ 99 ∷ [])) 2 2 0 [] [] }

abbrev pub sum_called : Row
sum_called = record { script = asking (Sum (1 ∷ 2 ∷ 3 ∷ [])) []; report = told_of (line.Sum Okay (0 ∷ 0 ∷ 0 ∷ 0 ∷ 0 ∷ 0 ∷ 0 ∷ 6 ∷ [])) 6 6 0 [] [] }

abbrev pub chat_called : Row
chat_called = record { script = asking (Chat (1 ∷ 2 ∷ [])) []; report = told_of (line.Chat Okay 2) 7 7 0 [] [] }

-- the REQUEST comes twice, and is two calls at the server
abbrev pub request_repeated : Row
request_repeated = record { script = asking (Echo (97 ∷ [])) ((1, Repeat) ∷ []); report = told_of (line.Echo Okay (97 ∷ [])) 3 4 0 [] [] }

-- the RESPONSE is lost, and the call is cancelled; it is kept back, and no frame comes behind it
abbrev pub response_lost : Row
response_lost = record { script = asking (Count 3) ((5, Lose) ∷ []); report = told_of (line.Count Cancelled 3) 6 5 0 [] [] }

abbrev pub response_kept_back : Row
response_kept_back = record { script = asking (Count 3) ((5, Swap) ∷ []); report = told_of (line.Count Okay 3) 5 5 0 [] [] }

-- the server closes channel 1, on which the call of the read is open; a call on it is then refused
abbrev pub channel_closed : Row
channel_closed = record {
  script = record new_script { server = stock 7 10 ∷ []; commands = Read 7 0 ∷ Close 1 ∷ Count 3 ∷ Close 1 ∷ [] };
  report = record {
    lines = line.Read 7 0 Okay 10 ∷ line.Close 1 (Some 1) ∷ line.Count Unavailable 0 ∷ line.Close 1 None ∷ [];
    frames = 10;
    delivered = 10;
    chunks = 6;
    server = resource_7 10;
    client = resource_7 10;
  };
}

-- a channel without a call is closed: nothing is sent
abbrev pub idle_channel_closed : Row
idle_channel_closed = record {
  script = record new_script { server = stock 7 10 ∷ []; commands = Read 7 0 ∷ Close 2 ∷ [] };
  report = record { lines = line.Read 7 0 Okay 10 ∷ line.Close 2 (Some 0) ∷ []; frames = 7; delivered = 7; chunks = 6; server = resource_7 10; client = resource_7 10 };
}
