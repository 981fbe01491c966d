-- What the words of the program stand for (our own form).
use Rattle.std.specs.Prelude.{◌≡◌, ℕ, ◌≤◌, nat_le, ◌&&◌, if◌then◌else◌, List, Option, Some, None, Bool}
use Rattle.std.specs.Option.{option_and_then}
use Rattle.itip_script.specs.Orders.{number_of}
use Rattle.itip_moment.specs.Spelling.{IsDateText}
use Rattle.itip_view.specs.declared.window.Window.{Window}

-- there can be this many desks
pub record AreDesks (desks : ℕ) : Type 0 where
  pub some : 1 ≤ desks
  pub few : desks ≤ 16

-- the same as a test
abbrev pub are_desks : ℕ → Bool
are_desks desks = nat_le 1 desks && nat_le desks 16

-- Decimal digits whose value is from 1 to 16.
abbrev pub desks_of : List ℕ → Option ℕ
desks_of text = option_and_then (λ desks. if are_desks desks then Some desks else None) (number_of text)

-- Two dates spell the ends of the window.
pub record IsWindowOf (from to : List ℕ) (window : Window) : Type 0 where
  pub first : IsDateText from window.from
  pub last : IsDateText to window.to

-- The values of the words are a number of desks and a window.
pub record IsScriptedOf (desks from to : List ℕ) (count : ℕ) (window : Window) : Type 0 where
  pub number : desks_of desks ≡ Some count
  pub days : IsWindowOf from to window

-- there can be this many workers
pub record AreWorkers (workers : ℕ) : Type 0 where
  pub some : 1 ≤ workers
  pub few : workers ≤ 8

-- the same as a test
abbrev pub are_workers : ℕ → Bool
are_workers workers = nat_le 1 workers && nat_le workers 8

-- Decimal digits whose value is from 1 to 8.
abbrev pub workers_of : List ℕ → Option ℕ
workers_of text = option_and_then (λ workers. if are_workers workers then Some workers else None) (number_of text)

-- this many threads can read messages
pub record AreThreads (threads : ℕ) : Type 0 where
  pub some : 1 ≤ threads
  pub few : threads ≤ 8

-- the same as a test
abbrev pub are_threads : ℕ → Bool
are_threads threads = nat_le 1 threads && nat_le threads 8

-- Decimal digits whose value is from 1 to 8.
abbrev pub threads_of : List ℕ → Option ℕ
threads_of text = option_and_then (λ threads. if are_threads threads then Some threads else None) (number_of text)
