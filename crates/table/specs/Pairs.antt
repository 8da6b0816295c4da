-- Section 3, event by event: in which states which rule applies. The states are told by their rows, and pairs that are
-- not listed do nothing.
use Rattle.std.specs.Prelude.{Bool, ◌||◌, List, [], ◌∷◌, ℕ, eqb, get_or}
use Rattle.model.specs.Vocabulary.{pick}

abbrev pub power_on_reset : ℕ → Bool
power_on_reset s = eqb s 0

abbrev pub pre_supervision : ℕ → Bool
pre_supervision s = eqb s 1

abbrev pub awaiting_ready : ℕ → Bool
awaiting_ready s = eqb s 2

abbrev pub ready : ℕ → Bool
ready s = eqb s 3

abbrev pub updating : ℕ → Bool
updating s = eqb s 4

abbrev pub recovering : ℕ → Bool
recovering s = eqb s 5

abbrev pub locked : ℕ → Bool
locked s = eqb s 6

-- The two states that release the cursor's component.
abbrev pub walking : ℕ → Bool
walking s = pre_supervision s || awaiting_ready s

abbrev pub supervised : ℕ → Bool
supervised s = awaiting_ready s || ready s || updating s || recovering s

-- PreSupervision or supervised.
abbrev pub running : ℕ → Bool
running s = pre_supervision s || supervised s

-- The numbers of the rules.
abbrev pub nothing : ℕ
nothing = 0

abbrev pub power : ℕ
power = 1

abbrev pub passed : ℕ
passed = 2

abbrev pub failed : ℕ
failed = 3

abbrev pub awaited_ready : ℕ
awaited_ready = 4

abbrev pub boot_progress : ℕ
boot_progress = 5

abbrev pub attest : ℕ
attest = 6

abbrev pub update : ℕ
update = 7

abbrev pub defer : ℕ
defer = 8

abbrev pub verified : ℕ
verified = 9

abbrev pub rejected : ℕ
rejected = 10

abbrev pub confirmed : ℕ
confirmed = 11

abbrev pub corruption_in_walk : ℕ
corruption_in_walk = 12

abbrev pub corruption : ℕ
corruption = 13

abbrev pub corruption_in_update : ℕ
corruption_in_update = 14

abbrev pub restored : ℕ
restored = 15

abbrev pub unavailable : ℕ
unavailable = 16

abbrev pub lock : ℕ
lock = 17

abbrev pub boot_failed_in_walk : ℕ
boot_failed_in_walk = 18

abbrev pub boot_failed : ℕ
boot_failed = 19

abbrev pub timeout : ℕ
timeout = 20

abbrev pub commit_timeout : ℕ
commit_timeout = 21

-- The rules of the state with row s, a line for each event.
abbrev pub listing : ℕ → List ℕ
listing s =
    pick (power_on_reset s) power nothing  -- PowerGood
    ∷ pick (walking s) passed nothing  -- VerificationPassed
    ∷ pick (walking s) failed nothing  -- VerificationFailed
    ∷ pick (awaiting_ready s) awaited_ready (pick (supervised s) boot_progress nothing)  -- ComponentReady
    ∷ pick (running s) boot_progress nothing  -- Booted
    ∷ pick (supervised s) attest nothing  -- AttestationChallenge
    ∷ pick (ready s) update (pick (supervised s) defer nothing)  -- UpdateRequest
    ∷ pick (updating s) verified nothing  -- UpdateVerified
    ∷ pick (updating s) rejected nothing  -- UpdateRejected
    ∷ pick (ready s) confirmed nothing  -- BootConfirmed
    ∷ pick (walking s) corruption_in_walk (pick (updating s) corruption_in_update (pick (supervised s) corruption nothing))  -- CorruptionDetected
    ∷ pick (recovering s) restored nothing  -- Restored
    ∷ pick (recovering s) unavailable nothing  -- RecoveryUnavailable
    ∷ pick (recovering s) lock nothing  -- RecoveryFailed
    ∷ pick (walking s) boot_failed_in_walk (pick (supervised s) boot_failed nothing)  -- BootFailed
    ∷ pick (running s) timeout nothing  -- Timeout
    ∷ pick (ready s) commit_timeout nothing  -- CommitTimeout
    ∷ pick (locked s) nothing lock  -- EffectFailed
    ∷ []

-- The rule of the state with row s and the event with column e.
abbrev pub listed : ℕ → ℕ → ℕ
listed s e = get_or (listing s) e 0
