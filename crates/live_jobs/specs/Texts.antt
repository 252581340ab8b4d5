-- Words for a text that was fetched, and for the job that it was handed in with.
use Rattle.std.specs.Prelude.{◌≡◌, ℕ, List, length, take, Option, Some, slice_get}
use Rattle.boxcar.specs.Table.{Shelves, Where}
use Rattle.cyc_buffer.specs.declared.answers.Found.TheVariants as found
use Rattle.job_queue.specs.declared.parcel.Handed.{Handed}
use Rattle.live_jobs.specs.declared.store_result.StoreResult.{StoreResult}
use Rattle.live_jobs.specs.declared.outcome.FinishedJob.{FinishedJob}
use Rattle.live_store.specs.Steps.{IsFoundIn}
use Rattle.live_store.specs.declared.fetched.Text.{Text}
use Rattle.live_store.specs.declared.following.OneRecord.{OneRecord}
use Rattle.live_store.specs.declared.record.StorePremises.{Ghosts}
use Rattle.live_store.specs.declared.writing.entering.Record.{Record}
use Rattle.news_terms.specs.BlockImage.{chunk}
use Rattle.news_terms.specs.Token.{Token}

-- its octets
abbrev pub octets_in : {J : Type 0} {g : Ghosts J} → Text J g → List ℕ
octets_in text = text.octets.items

-- the number of its record in the register
abbrev pub number_in : {J : Type 0} {g : Ghosts J} → Text J g → ℕ
number_in text = text.shown.index

-- the record that the reads of an article are of, if they are of one yet
abbrev pub record_of : {J : Type 0} {g : Ghosts J} → OneRecord J g → Option (Where Record)
record_of reads = reads.shown

-- the lists of a run, and one of its ends: the jobs that the writer of each group told of; of each
-- end, of each group, the jobs that the end handed over to it; and the number of the end
pub record Run (J : Type 0) (g : Ghosts J) : Type 0 where
  pub finished_lists : List (List (FinishedJob (StoreResult J g)))
  pub hands : List (List (List Handed))
  pub end : ℕ

-- a run, and a job of which a writer may have told in it
pub record RunJob (J : Type 0) (g : Ghosts J) : Type 0 where
  pub run : Run J g
  pub finished : FinishedJob (StoreResult J g)

-- the writer of a group told of this job, and what the end of the run handed over to this group
-- stands among the lists of the end
pub record ToldJob {J : Type 0} {g : Ghosts J} (run : Run J g) (d : FinishedJob (StoreResult J g))
    : Type 0 where
  pub group : ℕ
  pub place : ℕ
  pub finished : List (FinishedJob (StoreResult J g))
  pub handed : List (List Handed)
  pub jobs : List Handed
  pub of_writer : slice_get run.finished_lists group ≡ Some finished
  pub among : slice_get finished place ≡ Some d
  pub of_end : slice_get run.hands run.end ≡ Some handed
  pub of_group : slice_get handed group ≡ Some jobs

-- among the jobs that this end handed over to some group there is one of this number, whose
-- article's text are these octets
pub record IsHandedIn (hands : List (List (List Handed))) (end number : ℕ) (octets : List ℕ)
    : Type 0 where
  pub group : ℕ
  pub place : ℕ
  pub handed : List (List Handed)
  pub jobs : List Handed
  pub job : Handed
  pub of_end : slice_get hands end ≡ Some handed
  pub of_group : slice_get handed group ≡ Some jobs
  pub among : slice_get jobs place ≡ Some job
  pub same_number : job.number ≡ number
  pub text : job.job.article.text ≡ octets

-- so many octets at the front of a slice are block k of a text, which is as long as the token tells
pub record IsBlockOf (text : List ℕ) (token : Token) (k : ℕ) (slice : List ℕ) (n : ℕ)
    : Type 0 where
  pub whole : length text ≡ token.length
  pub block : take n slice ≡ chunk k text

-- this end handed over a job of this number whose text has as its blocks all that reads of this
-- record give
pub record IsGivenOf (register : Shelves) (own : Option (Where Record))
    (hands : List (List (List Handed))) (end number : ℕ)
    : Type 0 where
  pub text : List ℕ
  pub handed_in : IsHandedIn hands end number text
  pub given : (token : Token) (k : ℕ) (slice : List ℕ) (n : ℕ)
      → IsFoundIn register token k slice own (found.Chunk n)
      → IsBlockOf text token k slice n
